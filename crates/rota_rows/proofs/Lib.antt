pub mod FieldLaws
pub mod GoingOn
pub mod InRange
pub mod LineLaws
