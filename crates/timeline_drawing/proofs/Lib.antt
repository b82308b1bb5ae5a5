pub mod Chains
pub mod NameFacts
pub mod VisitFacts
pub mod Positions
pub mod FigureFacts
pub mod TruthFacts
pub mod DrawingFacts
pub mod RowFacts
