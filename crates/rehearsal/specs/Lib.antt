pub mod Cuts
pub mod Expected
