pub mod Graph
pub mod Means
pub mod Raised
pub mod Turns
pub mod Walks
