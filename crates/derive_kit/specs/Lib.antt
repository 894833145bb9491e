pub mod Derived
pub mod Instances
