pub mod ByRule
pub mod Entrants
pub mod Laws
pub mod RightLine
