pub mod Nodes
pub mod Forest
pub mod Accounts
pub mod Spares
pub mod Words
pub mod Steps
