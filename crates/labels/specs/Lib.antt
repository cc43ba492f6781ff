pub mod Orders
pub mod PartOrders
pub mod Labels
pub mod Edges
pub mod Levels
pub mod Subsets
