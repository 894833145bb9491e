pub mod CoverSearch
pub mod Screens
pub mod Settled
pub mod Taken
pub mod code
