pub mod Detail
pub mod KeyWord
pub mod Piece
pub mod Refusal
pub mod Refusing
pub mod TableWord
