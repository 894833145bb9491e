pub mod Choosing
pub mod code
