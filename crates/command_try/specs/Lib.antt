pub mod TryText
pub mod Tried
