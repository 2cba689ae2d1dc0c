pub mod Operations
pub mod Ratios
pub mod Values
