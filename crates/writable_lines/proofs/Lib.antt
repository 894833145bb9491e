pub mod Each
pub mod Listing
pub mod Naming
pub mod Whole
