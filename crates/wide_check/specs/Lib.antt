pub mod Wide
pub mod inner
