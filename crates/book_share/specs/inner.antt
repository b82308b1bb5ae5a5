pub mod Inside
pub mod Turning
pub mod Memo
