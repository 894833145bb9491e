-- What private contracts alone say of the code. Nothing public rests on this.
pub mod Answer
pub mod Making
pub mod Printing
pub mod Rooms
