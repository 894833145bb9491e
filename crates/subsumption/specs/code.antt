-- What private contracts alone say of the code. Nothing public rests on this.
pub mod Bound
pub mod Matched
pub mod Placed
pub mod Screens
