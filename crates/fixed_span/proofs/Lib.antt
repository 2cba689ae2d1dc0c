pub mod Signed
pub mod Means
pub mod TextLaws
pub mod Verdicts
pub mod Lowering
