pub mod NameTests
pub mod NumberNames
