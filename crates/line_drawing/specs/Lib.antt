pub mod Segments
pub mod Notes
pub mod Figures
pub mod Parts
pub mod Rows
pub mod Drawing
pub mod Facts
