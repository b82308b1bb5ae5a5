pub mod Plans
pub mod Rounds
pub mod Solving
pub mod Certified
pub mod inner
