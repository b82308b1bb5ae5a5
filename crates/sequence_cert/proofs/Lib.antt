pub mod VersionLines
pub mod StateWords
pub mod StateLines
pub mod PartFacts
