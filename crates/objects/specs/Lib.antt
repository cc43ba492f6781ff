pub mod Storing
pub mod PageChanges
pub mod Views
pub mod Writes
pub mod VolumePages
