pub mod Formulas
pub mod Functions
pub mod Opened
pub mod Wanted
pub mod code
