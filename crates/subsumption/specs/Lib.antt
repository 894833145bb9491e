pub mod Mask
pub mod Subsumes
pub mod code
