pub mod Steps
pub mod Swaps
pub mod Pairs
