pub mod Weighing
pub mod Stances
pub mod Worths
pub mod Rounding
pub mod Tables
pub mod Certain
pub mod Answering
