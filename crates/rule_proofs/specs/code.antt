-- What private contracts alone say of the code. Nothing public rests on this.
pub mod Factoring
pub mod Rewriting
