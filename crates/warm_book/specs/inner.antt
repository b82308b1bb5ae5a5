pub mod Takings
pub mod Walked
