pub mod Names
pub mod Needs
pub mod Places
pub mod Plans
pub mod Lines
pub mod Derivations
pub mod code
