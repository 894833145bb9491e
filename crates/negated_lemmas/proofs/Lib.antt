pub mod Carried
pub mod InTurn
