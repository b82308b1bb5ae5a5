pub mod Asking
pub mod Ends
pub mod Outcomes
pub mod Seek
pub mod CycleCertified
pub mod inner
pub use Rattle.round_run.specs as rounds
