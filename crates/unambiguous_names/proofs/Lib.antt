pub mod Steps
pub mod Formulas
pub mod Lines
pub mod Names
pub mod Fresh
pub mod Whole
