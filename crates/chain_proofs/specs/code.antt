-- What private contracts alone say of the code. Nothing public rests on this.
pub mod Keys
pub mod Parts
pub mod Steps
pub mod Walks
