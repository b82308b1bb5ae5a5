pub mod Visits
pub mod Figures
pub mod Parts
pub mod Rows
pub mod Drawing
pub mod Facts
