pub mod Played
pub mod Recorded
pub mod Run
