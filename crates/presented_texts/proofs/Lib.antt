pub mod Feeds
pub mod LinesApart
pub mod Regions
pub mod Whole
