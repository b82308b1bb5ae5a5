pub mod InputFile
pub mod TableTexts
pub mod Instance
pub mod Sheet
pub mod Certificate
pub mod Kind
pub mod TextFile
