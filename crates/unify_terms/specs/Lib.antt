pub mod Goals
pub mod Substitution
pub mod Unifiers
pub mod code
