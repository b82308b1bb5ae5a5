pub mod Warm
pub mod Counted
pub mod inner
