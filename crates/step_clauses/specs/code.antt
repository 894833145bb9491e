-- What private contracts alone say of the code. Nothing public rests on this.
pub mod Bound
pub mod Chosen
pub mod Counts
pub mod InTurn
