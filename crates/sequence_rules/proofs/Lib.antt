pub mod SumFacts
pub mod CostFacts
pub mod RowFacts
pub mod LemmasHold
pub mod Starts
pub mod UnitCounts
pub mod PassingNumbers
