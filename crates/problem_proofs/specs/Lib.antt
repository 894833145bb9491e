pub mod Posed
pub mod Found
pub mod Proved
