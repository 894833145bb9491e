pub mod Words
pub mod Sources
pub mod Typings
pub mod Items
