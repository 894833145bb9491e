pub mod Chains
pub mod Contexts
pub mod Facts
pub mod Known
pub mod Stretches
pub mod code
