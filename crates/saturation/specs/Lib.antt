pub mod Ends
pub mod Lists
pub mod Members
pub mod Origins
pub mod code
