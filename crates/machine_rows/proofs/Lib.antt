pub mod Exits
pub mod Follows
pub mod Held
