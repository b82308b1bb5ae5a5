pub mod OtherNames
