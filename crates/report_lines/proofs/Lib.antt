pub mod InRange
pub mod FieldLaws
pub mod HeadLaws
pub mod EntryLaws
pub mod FirstLaws
pub mod LineLaws
pub mod Raising
