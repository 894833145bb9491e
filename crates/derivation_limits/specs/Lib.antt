pub mod Nesting
pub mod Totals
pub mod Names
pub mod code
