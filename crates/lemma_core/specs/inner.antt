pub mod Inside
pub mod Chains
