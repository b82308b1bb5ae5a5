pub mod ClosedFacts
pub mod FoundFacts
pub mod RefusalFacts
pub mod AcceptedIsTrue
pub mod OneVerdict
