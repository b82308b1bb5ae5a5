pub mod ScanTurns
pub mod EachStart
pub mod Walks
pub mod AllLoadsGiven
pub mod LeftFacts
pub mod PlaceTests
pub mod SetFacts
