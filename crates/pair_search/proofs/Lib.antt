pub mod KeptTasks
pub mod RowFacts
pub mod StepFacts
pub mod FoundFacts
