pub mod TaskNames
pub mod Naming
