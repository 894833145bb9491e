-- What private contracts alone say of the code. Nothing public rests on this.
pub mod Flags
pub mod Graphs
pub mod Meaning
pub mod Nodes
pub mod Outcomes
pub mod Queue
pub mod RefSets
pub mod Sources
pub mod Tables
