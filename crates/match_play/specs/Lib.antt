pub mod Cycle
pub mod Followed
pub mod Fresh
pub mod Known
pub mod Match
pub mod Trail
