pub mod WrittenFacts
pub mod CiteCounts
pub mod WordLengths
pub mod EntryLengths
pub mod TextLengths
