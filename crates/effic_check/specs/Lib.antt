pub mod Accepted
pub mod Truth
pub mod Verdict
pub mod Laws
