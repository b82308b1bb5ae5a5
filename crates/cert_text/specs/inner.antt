pub mod Pieces
pub mod OldParts
