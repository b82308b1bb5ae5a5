pub mod Mode
pub mod Decide
pub mod Costs
pub mod Beside
pub mod Parts
pub mod inner
pub use Rattle.pair_search.specs as pairs
