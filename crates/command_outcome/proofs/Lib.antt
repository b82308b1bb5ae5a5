pub mod OutcomeFacts
pub mod WrittenFacts
pub mod FoundFacts
