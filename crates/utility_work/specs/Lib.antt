pub mod Utility
