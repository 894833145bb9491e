-- What private contracts alone say of the code. Nothing public rests on this.
pub mod Adding
pub mod Answers
pub mod Dots
pub mod Outcomes
pub mod ReadClauses
pub mod ReadFormulas
pub mod ReadGeneral
pub mod ReadFile
pub mod ReadItems
pub mod ReadTerms
pub mod ReadTypedClauses
pub mod ReadTypes
