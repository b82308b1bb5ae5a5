pub mod FoundFacts
pub mod ProductLengths
