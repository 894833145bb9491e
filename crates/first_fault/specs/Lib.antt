pub mod Nesting
pub mod Rules
pub mod code
