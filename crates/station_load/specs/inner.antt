pub mod Marked
pub mod Steps
