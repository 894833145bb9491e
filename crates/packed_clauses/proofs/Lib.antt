pub mod Imaged
pub mod Read
pub mod Spelled
