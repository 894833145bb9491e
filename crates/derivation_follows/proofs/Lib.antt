mod Firsts
mod Following
mod InTurn
mod Whole
mod Plainly
pub mod Fitting
mod Inferences
pub mod Applying
mod Cases
pub mod Proofs
