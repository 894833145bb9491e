pub mod Claims
pub mod Read
pub mod Verified
pub mod Posed
pub mod Problems
