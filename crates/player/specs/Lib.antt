pub mod Evening
pub mod Standing
