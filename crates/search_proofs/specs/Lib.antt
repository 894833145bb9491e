pub mod Falsehood
pub mod Needed
pub mod Placed
pub mod Searched
pub mod code
