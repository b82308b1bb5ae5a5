pub mod Versions
pub mod StateReading
pub mod Parts
pub mod Pieces
