pub mod ByKind
pub mod Ruled
