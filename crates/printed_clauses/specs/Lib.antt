pub mod Marks
pub mod Prefixes
pub mod Renumbered
pub mod Trimmed
pub mod code
