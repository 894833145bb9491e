pub mod MarkingFacts
pub mod PrefixFacts
pub mod RenumberedFacts
pub mod TrimmedFacts
