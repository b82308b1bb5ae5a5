pub mod WideWords
pub mod LineFacts
pub mod VersionLines
pub mod ListFacts
pub mod PartFacts
