pub mod TurnFacts
pub mod SideFacts
pub mod StationTurns
pub mod WholePlan
