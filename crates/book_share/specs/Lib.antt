pub mod Passes
pub mod Places
pub mod Rule
pub mod Steps
pub mod Calls
pub mod inner
