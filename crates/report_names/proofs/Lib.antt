pub mod Coming
pub mod Growth
pub mod PlaceLaws
