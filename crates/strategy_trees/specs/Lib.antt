pub mod Bounds
pub mod Cells
pub mod Contest
pub mod Lassos
pub mod Potentials
pub mod Strategies
