pub mod DrawFacts
