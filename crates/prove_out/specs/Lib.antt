pub mod Unambiguous
pub mod Variables
pub mod Denoting
pub mod code
