pub mod Marks
pub mod Records
pub mod Lists
pub mod Rows
pub mod Faults
pub mod Tables
pub mod inner
