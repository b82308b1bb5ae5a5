pub mod SentBytes
pub mod Windows
pub mod FileEnds
