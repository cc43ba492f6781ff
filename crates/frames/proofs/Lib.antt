pub mod Shifts
mod Words
mod Outcomes
mod Numbers
mod Rows
mod Heads
mod Ranges
mod Parts
mod Buffers
mod Walks
mod Arguments
pub mod Frames
pub mod RoundTrip
mod Decoded
mod Encoded
