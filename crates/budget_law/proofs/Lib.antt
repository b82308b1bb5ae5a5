pub mod DistinctNumbers
pub mod TripleCodes
pub mod Families
pub mod DistinctTriples
pub mod EntryFamilies
pub mod FrameFamilies
pub mod FewUnits
