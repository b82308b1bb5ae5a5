pub mod WrittenFacts
pub mod BeginningFacts
pub mod WordLengths
pub mod SequenceLengths
