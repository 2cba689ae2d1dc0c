pub mod Fitness
pub mod Fixation
pub mod Moran
pub mod Ranges
