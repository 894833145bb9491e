pub mod Chaining
pub mod Knowing
pub mod Literals
pub mod Parting
pub mod Stepping
pub mod Walking
