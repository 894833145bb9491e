pub mod Lines
pub mod Marks
pub mod Region
pub mod Report
