pub mod Machine
pub mod History
pub mod Laws
pub mod Desks
pub mod Own
pub mod Books
pub mod Sieves
pub mod inner
