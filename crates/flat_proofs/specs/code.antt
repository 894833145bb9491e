-- What private contracts alone say of the code. Nothing public rests on this.
pub mod Gathering
pub mod Halving
pub mod Leading
pub mod Loose
pub mod Members
pub mod Moving
pub mod Nodes
pub mod Permuting
