pub mod CycleText
pub mod Found
