pub mod Codes
pub mod Print
pub mod Bounds
pub mod Outcome
pub mod Found
pub mod Wrote
pub mod Output
pub mod Ending
