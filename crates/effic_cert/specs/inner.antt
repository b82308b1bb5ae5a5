pub mod WideReading
pub mod Parts
