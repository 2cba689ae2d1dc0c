pub mod Checkpoints
pub mod Errors
pub mod Exact
pub mod Marks
pub mod Steps
pub mod Texts
