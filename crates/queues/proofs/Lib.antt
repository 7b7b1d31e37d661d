pub mod Lists
pub mod Writes
pub mod Chains
pub mod Standing
pub mod Removal
pub mod Arrival
pub mod Told
pub mod Changes
