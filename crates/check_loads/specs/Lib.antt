pub mod Posed
pub mod Standing
