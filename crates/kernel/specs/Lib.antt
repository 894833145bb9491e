pub mod Entries
pub mod Proves
pub mod Rules
pub mod Statements
pub mod code
