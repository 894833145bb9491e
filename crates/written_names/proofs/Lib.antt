pub mod Given
pub mod GivenNames
