pub mod Printed
pub mod Proofs
pub mod code
