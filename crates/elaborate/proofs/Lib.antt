pub mod StepAnswers
pub mod FoundAnswers
