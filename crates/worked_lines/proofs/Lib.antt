pub mod FreeTasks
pub mod FirstLoads
pub mod Branches
pub mod WorkedRows
pub mod FiveTasks
pub mod SixTasks
pub mod SevenTasks
pub mod Events
