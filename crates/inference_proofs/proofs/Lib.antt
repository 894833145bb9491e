pub mod Kept
pub mod AsSteps
pub mod Covered
