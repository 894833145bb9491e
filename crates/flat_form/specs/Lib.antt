pub mod Flat
pub mod Numbers
pub mod Renumbered
pub mod Variables
pub mod code
