pub mod DefinitionRule
pub mod DefinitionSearch
pub mod SplitRule
pub mod SplitSearch
pub mod code
