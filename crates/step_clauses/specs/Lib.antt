pub mod Existentials
pub mod Inputs
pub mod Room
pub mod Skolems
pub mod Ways
pub mod Wide
pub mod code
