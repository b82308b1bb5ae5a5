pub mod StateFacts
pub mod WalkFacts
