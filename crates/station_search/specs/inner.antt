pub mod Order
pub mod Work
pub mod Steps
pub mod Walks
