pub mod Cycles
pub mod Moving
pub mod Places
pub mod Playing
pub mod Plays
pub mod Reading
