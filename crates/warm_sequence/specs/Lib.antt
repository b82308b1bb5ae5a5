pub mod Warm
pub mod inner
