pub mod Joining
pub mod Pairing
