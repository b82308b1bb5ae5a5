pub mod Counted
pub mod Since
pub mod Lowest
pub mod NextTry
pub mod Outcomes
pub mod inner
pub use Rattle.cycle_search.specs.rounds as rounds
pub use Rattle.cycle_search.specs as cycles
