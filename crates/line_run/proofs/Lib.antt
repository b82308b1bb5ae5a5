pub mod RunFacts
pub mod HeadlineFacts
pub mod PageFacts
pub mod JobFacts
pub mod RanFacts
