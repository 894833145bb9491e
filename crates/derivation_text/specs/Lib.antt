pub mod Derivations
pub mod Texts
pub mod Wants
