pub mod PlainFields
pub mod RowFacts
