pub mod RecordsLeft
pub mod Reading
pub mod Building
