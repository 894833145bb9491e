pub mod Lawful
pub mod Sound
pub mod Renaming
pub mod Codes
pub mod Table
pub mod Answering
pub mod Truth
pub mod Deciding
