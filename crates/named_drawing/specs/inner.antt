-- Words that only the code of this crate is stated by.
pub mod Splits
pub mod Characters
pub mod Cuts
