pub mod Sharing
pub mod Found
pub mod inner
