pub mod ProductFile
pub mod ProductText
pub mod EfficCheck
pub mod EfficText
pub mod EfficFound
