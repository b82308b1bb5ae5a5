pub mod Walks
pub mod Faults
pub mod Lists
pub mod Frames
pub mod Verdicts
pub mod Laws
