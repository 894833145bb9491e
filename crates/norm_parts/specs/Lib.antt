pub mod ByParts
pub mod Parts
pub mod Shown
pub mod code
