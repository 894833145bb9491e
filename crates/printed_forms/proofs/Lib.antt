pub mod Clauses
pub mod Denoted
pub mod Functions
pub mod ListsFacts
pub mod Norms
pub mod Spelled
pub mod WrittenFacts
