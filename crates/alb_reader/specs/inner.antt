pub mod Drafts
pub mod Fillings
pub mod Making
