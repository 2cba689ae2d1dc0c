pub mod DrillRules
pub mod Grammar
pub mod MatchRules
pub mod Read
pub mod Room
pub mod TableRules
pub mod Text
pub mod Valid
