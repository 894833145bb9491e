pub mod Inferred
pub mod code
