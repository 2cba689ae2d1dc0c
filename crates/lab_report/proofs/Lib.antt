pub mod Numbered
pub mod Piecing
