-- What private contracts alone say of the code. Nothing public rests on this.
pub mod Slots
pub mod Adding
pub mod Looks
pub mod Scope
pub mod Shapes
