pub mod DrillMade
pub mod Gathering
pub mod MadeLaws
pub mod MatchMade
