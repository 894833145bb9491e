-- What private contracts alone say of the code. Nothing public rests on this.
pub mod Existentials
pub mod Leading
pub mod Witnessed
pub mod Witnessing
