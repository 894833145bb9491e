-- What private contracts alone say of the code. Nothing public rests on this.
pub mod Alongside
pub mod Applying
pub mod Bound
pub mod Connectives
pub mod Fitting
pub mod Joining
pub mod Links
pub mod Narrowing
pub mod Placed
pub mod Recursion
pub mod Routes
pub mod Settled
pub mod Steps
