pub mod Usage
pub mod Pages
pub mod Run
pub mod Headline
pub mod Ran
