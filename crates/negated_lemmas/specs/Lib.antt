pub mod Negated
pub mod code
