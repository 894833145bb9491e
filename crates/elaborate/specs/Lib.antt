pub mod Answers
pub mod ByRule
pub mod code
