-- What private contracts alone say of the code. Nothing public rests on this.
pub mod Inputs
pub mod Learning
pub mod Naming
pub mod Refuting
