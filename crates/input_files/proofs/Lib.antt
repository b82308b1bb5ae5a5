pub mod InputFacts
pub mod PlainFacts
pub mod PairFacts
pub mod SheetFacts
