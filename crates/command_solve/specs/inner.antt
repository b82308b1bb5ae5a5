pub mod Begun
pub mod Reports
pub mod FirstSearch
pub mod Said
