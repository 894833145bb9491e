pub mod Links
pub mod Graphs
pub mod Cited
