pub mod Aims
pub mod Tries
pub mod Trying
