pub mod UtilityFacts
