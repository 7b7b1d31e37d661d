pub mod Counts
pub mod Evenings
pub mod Scripts
