pub mod Narrowing
pub mod Numbering
pub mod Placed
pub mod code
