pub mod OneWay
pub mod Pieces
