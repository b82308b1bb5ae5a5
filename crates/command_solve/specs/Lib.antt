pub mod SolutionText
pub mod Effort
pub mod WarmStart
pub mod Solution
pub mod inner
pub use Rattle.round_run.specs as rounds
