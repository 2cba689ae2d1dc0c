pub mod Listing
pub mod Offsets
pub mod Summing
