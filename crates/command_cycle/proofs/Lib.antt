pub mod FitFacts
