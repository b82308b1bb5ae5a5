pub mod Product
pub mod Faults
pub mod Laws
pub mod inner
