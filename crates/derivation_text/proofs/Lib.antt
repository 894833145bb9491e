pub mod Bringing
pub mod Counts
pub mod OneNodeEach
pub mod OneDerivation
pub mod Readings
pub mod Sizes
