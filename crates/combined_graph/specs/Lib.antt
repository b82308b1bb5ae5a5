pub mod Mixes
pub mod Records
pub mod MixRecords
pub mod MixText
pub mod Contents
pub mod Faults
pub mod Combined
pub mod Sequences
