pub mod Trim
pub mod Laws
pub mod PairEntries
pub mod OldRanges
pub mod Lift
