pub mod Items
mod Upto
mod Countdown
mod Looking
mod Pushed
pub mod Numbering
pub mod Counts
pub mod Within
mod Made
pub mod LatePages
