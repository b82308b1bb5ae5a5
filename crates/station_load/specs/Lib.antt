pub mod Laws
pub mod Walking
pub mod inner
