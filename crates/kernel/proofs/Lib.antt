pub mod OneFormula
pub mod Building
pub mod EntryLaws
pub mod RuleEquivalences
pub mod Weakening
