pub mod Jobs
pub mod Growth
pub mod Helping
pub mod inner
