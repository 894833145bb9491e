-- What private contracts alone say of the code. Nothing public rests on this.
pub mod Entered
pub mod Given
pub mod Known
pub mod Marked
pub mod Named
pub mod Offers
pub mod Packed
pub mod Search
pub mod Steps
pub mod Turns
pub mod Waiting
