pub mod Counted
pub mod Decided
pub mod Chosen
pub mod OccurrencesFacts
pub mod OrderFacts
pub mod WeightLaws
pub mod WeightsFacts
