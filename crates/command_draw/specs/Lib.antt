pub mod Drawable
pub mod Draw
pub mod Plan
