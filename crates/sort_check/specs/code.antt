-- What private contracts alone say of the code. Nothing public rests on this.
pub mod Denotation
pub mod Fronts
pub mod Namesakes
pub mod Outcomes
pub mod Reach
pub mod Texts
pub mod Turns
pub mod Variables
