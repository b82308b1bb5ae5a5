pub mod Sections
pub mod Faults
pub mod Instance
pub mod Texts
pub mod Written
pub mod inner
