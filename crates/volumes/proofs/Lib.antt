pub mod Plains
pub mod Halves
