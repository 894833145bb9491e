-- What private contracts alone say of the code. Nothing public rests on this.
pub mod Arguments
pub mod DefinitionSearch
pub mod Renaming
pub mod SplitProof
pub mod SplitSearch
pub mod Trees
