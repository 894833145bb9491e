pub mod Finding
pub mod FunctionFacts
pub mod GrowingFacts
pub mod PosedFacts
pub mod Searching
