pub mod ReadBack
pub mod ShownFacts
