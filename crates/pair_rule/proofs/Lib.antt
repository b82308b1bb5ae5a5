pub mod EachTwo
pub mod OnesLeft
