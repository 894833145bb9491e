mod Lines
pub mod Naming
pub mod Reading
pub mod Sizing
pub mod Taken
