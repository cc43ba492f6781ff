pub mod LabelLaws
pub mod Bits
