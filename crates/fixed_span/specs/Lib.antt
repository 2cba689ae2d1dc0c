pub mod Lowered
pub mod Mix
pub mod Span
pub mod Texts
pub mod Verdict
