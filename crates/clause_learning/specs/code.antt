-- What private contracts alone say of the code. Nothing public rests on this.
pub mod Cuts
pub mod Held
pub mod Marked
pub mod States
pub mod Trails
pub mod Trims
pub mod Weights
