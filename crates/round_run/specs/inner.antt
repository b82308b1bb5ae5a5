pub mod Questions
pub mod Closed
