pub mod TableText
pub mod Laws
pub mod inner
