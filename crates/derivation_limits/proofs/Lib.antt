pub mod NamesFacts
pub mod NestingFacts
pub mod TotalsFacts
pub mod VariablesFacts
