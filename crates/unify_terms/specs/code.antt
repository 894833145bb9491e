-- What private contracts alone say of the code. Nothing public rests on this.
pub mod Attempts
pub mod Binding
pub mod Chosen
pub mod Classes
pub mod Graph
pub mod Images
pub mod Order
pub mod Partition
pub mod Pending
pub mod Searched
pub mod Shown
pub mod Solved
