pub mod Codes
pub mod Decisions
pub mod Propositional
pub mod code
