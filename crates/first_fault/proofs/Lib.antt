pub mod Exact
pub mod Found
pub mod Good
pub mod Separated
pub mod Loops
pub mod NestingFacts
