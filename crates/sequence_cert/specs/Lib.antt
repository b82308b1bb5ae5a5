pub mod SequenceText
pub mod Faults
pub mod Laws
pub mod inner
