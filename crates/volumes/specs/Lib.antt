pub mod Pages
pub mod Volumes
pub mod Joins
pub mod Insides
pub mod Parts
