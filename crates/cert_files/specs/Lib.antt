pub mod From
pub mod inner
