pub mod Nodes
pub mod Index
pub mod Tables
pub mod Values
pub mod Calls
pub mod inner
