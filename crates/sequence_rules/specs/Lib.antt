pub mod States
pub mod Charges
pub mod Entries
pub mod Trails
pub mod Accepted
pub mod Ranges
pub mod Laws
pub mod inner
