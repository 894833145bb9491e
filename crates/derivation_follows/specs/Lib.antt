pub mod Sure
pub mod Applied
pub mod Stepping
pub mod Members
pub mod Cases
