pub mod Combine
pub mod Utility
pub mod Timeline
pub mod TimelineDraw
