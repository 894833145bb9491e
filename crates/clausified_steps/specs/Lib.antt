pub mod Clausified
pub mod code
