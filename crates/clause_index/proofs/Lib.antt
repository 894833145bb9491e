pub mod Filing
pub mod Gathering
pub mod KeyFacts
