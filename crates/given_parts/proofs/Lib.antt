pub mod ChosenFacts
pub mod PartFacts
