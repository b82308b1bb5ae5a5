pub mod About
pub mod Tables
pub mod Index
pub mod Steps
pub mod Work
pub mod Outcomes
pub mod inner
