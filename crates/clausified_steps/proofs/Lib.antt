pub mod Among
pub mod Counted
pub mod Formed
pub mod Lacking
pub mod Lines
