pub mod Three
pub mod Writes
