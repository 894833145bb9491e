pub mod Carried
pub mod Follows
pub mod Printed
