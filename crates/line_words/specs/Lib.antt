pub mod Words
pub mod Table
pub mod Jobs
pub mod Texts
pub mod Ranges
