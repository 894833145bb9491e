mod Merging
mod Loose
mod Making
mod Moving
mod Numbers
mod Skolems
mod Covering
pub mod Opening
