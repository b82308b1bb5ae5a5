pub mod Deques
pub mod Steps
pub mod Hands
pub mod Calls
pub mod Lending
pub mod Opening
pub mod Closing
pub mod inner
