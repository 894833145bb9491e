pub mod SourceFacts
pub mod TypingFacts
