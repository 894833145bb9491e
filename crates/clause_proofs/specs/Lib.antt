pub mod Bodies
pub mod Closed
pub mod Premises
pub mod Refuting
pub mod Shown
pub mod Turning
pub mod code
