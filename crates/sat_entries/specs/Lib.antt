pub mod Decided
pub mod code
