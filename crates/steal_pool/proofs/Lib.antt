pub mod Sums
pub mod DequeSteps
pub mod TallySteps
pub mod Ports
pub mod Each
pub mod OpeningFacts
pub mod ClosingFacts
pub mod HandFacts
