pub mod Expected
pub mod Layer
pub mod Course
pub mod Scale
pub mod Slim
pub mod Wide
pub mod Estimate
