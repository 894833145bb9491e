-- What private contracts alone say of the code. Nothing public rests on this.
pub mod Latest
pub mod Numbered
pub mod Taking
