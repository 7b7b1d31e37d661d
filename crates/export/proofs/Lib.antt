pub mod Good
pub mod Transcripts
