pub mod ByRule
pub mod code
