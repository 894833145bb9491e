-- What private contracts alone say of the code. Nothing public rests on this.
pub mod Causes
pub mod NameSet
pub mod Opening
pub mod Path
pub mod Reading
pub mod Selecting
pub mod Spelling
pub mod Steps
