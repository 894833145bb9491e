pub mod Entries
pub mod Heads
pub mod Keys
pub mod code
