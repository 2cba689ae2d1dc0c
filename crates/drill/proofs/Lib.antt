pub mod Differing
pub mod Drawing
