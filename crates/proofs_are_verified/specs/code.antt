-- What private contracts alone say of the code. Nothing public rests on this.
pub mod Texts
