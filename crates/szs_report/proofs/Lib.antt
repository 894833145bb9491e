pub mod Cuts
pub mod Regions
