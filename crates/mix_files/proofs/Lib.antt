pub mod Demand
pub mod BalancedFacts
pub mod LaunchFacts
