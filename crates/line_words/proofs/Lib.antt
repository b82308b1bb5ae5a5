pub mod Splits
pub mod Behind
pub mod Between
