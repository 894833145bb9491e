-- What private contracts alone say of the code. Nothing public rests on this.
pub mod Apart
pub mod Conclusions
pub mod Listed
pub mod Named
pub mod Noted
pub mod Pairs
pub mod Resolvable
pub mod Placed
pub mod Places
pub mod Uses
