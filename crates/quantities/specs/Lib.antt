pub mod Range
pub mod Ids
