pub mod Built
pub mod DerivedFacts
pub mod Around
pub mod Members
