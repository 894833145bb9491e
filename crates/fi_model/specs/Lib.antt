pub mod Cells
pub mod Distinct
pub mod Faults
pub mod Interpretations
pub mod Models
pub mod Sentences
pub mod Tables
pub mod code
