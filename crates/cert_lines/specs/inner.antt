pub mod LineReading
pub mod Answering
