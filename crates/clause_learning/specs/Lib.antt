pub mod Literals
pub mod Refutations
pub mod Valuations
pub mod code
