pub mod Limits
pub mod Premises
pub mod Printed
pub mod Room
pub mod Sources
pub mod code
