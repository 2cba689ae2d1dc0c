pub mod Again
pub mod LineLaws
pub mod MarkLaws
pub mod RowLaws
pub mod ScoreLaws
pub mod Spelled
pub mod Taken
