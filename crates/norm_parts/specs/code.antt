-- What private contracts alone say of the code. Nothing public rests on this.
pub mod Candidates
pub mod Found
pub mod Gathering
pub mod Instances
pub mod Known
pub mod Together
