pub mod MarkFacts
pub mod KeptPlaces
pub mod ThinnedLists
pub mod TrimFacts
pub mod RaisedFacts
