pub mod FoundFacts
pub mod SaidFacts
pub mod BegunFacts
pub mod TurnFacts
