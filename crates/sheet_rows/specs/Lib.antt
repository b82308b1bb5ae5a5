pub mod SheetRows
pub mod inner
