pub mod SheetFacts
