-- What private contracts alone say of the code. Nothing public rests on this.
pub mod Choosing
pub mod Leading
pub mod Leaves
pub mod Only
pub mod Reading
pub mod Skolemizing
pub mod Solid
pub mod Told
