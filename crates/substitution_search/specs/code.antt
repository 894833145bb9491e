-- What private contracts alone say of the code. Nothing public rests on this.
pub mod Chances
pub mod Heads
pub mod Narrow
pub mod Screens
pub mod Taken
pub mod Ways
