pub mod Rows
pub mod Events
