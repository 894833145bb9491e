pub mod Laws
pub mod Names
pub mod Parts
pub mod Resolved
pub mod Selection
pub mod Texts
pub mod Tried
pub mod code
