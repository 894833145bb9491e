-- What private contracts alone say of the code. Nothing public rests on this.
pub mod Bodies
pub mod Clashes
pub mod Contradictions
pub mod Derived
pub mod Ended
pub mod Facts
pub mod Marks
pub mod Members
pub mod Naming
pub mod Repeats
pub mod Variables
pub mod Wanting
