pub mod Lists
pub mod Sums
pub mod TurnSteps
pub mod LoadSteps
pub mod SplitFacts
pub mod Hands
pub mod CallFacts
pub mod MemoFacts
