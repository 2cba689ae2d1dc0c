pub mod Meeting
pub mod Response
pub mod Rounded
