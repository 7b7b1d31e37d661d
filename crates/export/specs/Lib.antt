pub mod Kept
pub mod Room
pub mod Transcribed
pub mod Wire
