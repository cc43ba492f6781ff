pub mod Lines
pub mod Text
pub mod Listings
pub mod Pending
