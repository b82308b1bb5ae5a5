pub mod StepFacts
pub mod TableFacts
pub mod IndexFacts
pub mod ValueFacts
pub mod FirstFacts
pub mod PassFacts
