pub mod Paths
pub mod Tries
