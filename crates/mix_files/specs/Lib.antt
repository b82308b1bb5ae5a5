pub mod MixFile
pub mod SequenceFile
pub mod BalanceFile
pub mod Balanced
pub mod Launch
pub use Rattle.input_files.specs as inputs
