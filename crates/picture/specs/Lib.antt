pub mod Drawn
