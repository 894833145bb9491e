pub mod Inside
pub mod Mentioned
