pub mod Comparison
pub mod Eligible
pub mod Order
pub mod Weights
pub mod code
