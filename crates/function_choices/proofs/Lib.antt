pub mod AlikeFacts
pub mod AtomsFacts
pub mod Chosen
pub mod Found
pub mod MatchedFacts
pub mod Offered
pub mod Replaced
pub mod Walked
