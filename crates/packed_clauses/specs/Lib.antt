pub mod Instances
pub mod Reading
pub mod code
