pub mod Beginning
pub mod Joining
pub mod Lowering
pub mod Passing
pub mod Standing
