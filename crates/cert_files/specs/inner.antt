pub mod Pieces
pub mod Rest
