pub mod NumberFacts
pub mod RangeFacts
pub mod KeepFacts
pub mod OneKept
