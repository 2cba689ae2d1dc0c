pub mod Lowered
pub mod Ranks
pub mod Totals
