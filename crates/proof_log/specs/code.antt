-- What private contracts alone say of the code. Nothing public rests on this.
pub mod Answers
pub mod Characters
pub mod LogRest
pub mod LogText
pub mod Names
pub mod Outcomes
pub mod ReadEntries
pub mod ReadTrees
pub mod ReadWords
