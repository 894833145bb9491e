pub mod Concludes
pub mod Faults
pub mod Uses
pub mod code
