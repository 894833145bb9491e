pub mod Chosen
pub mod Parts
pub mod Owners
pub mod Functions
pub mod Numbers
