pub mod Filling
pub mod Weights
pub mod Picked
