pub mod Options
pub mod Digits
pub mod Words
pub mod Lines
pub mod Texts
pub mod Splits
