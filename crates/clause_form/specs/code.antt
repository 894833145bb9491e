-- What private contracts alone say of the code. Nothing public rests on this.
pub mod Beside
pub mod ClauseView
pub mod Found
pub mod Room
