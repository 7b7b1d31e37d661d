pub mod Members
pub mod Rings
pub mod Writes
pub mod Outcomes
