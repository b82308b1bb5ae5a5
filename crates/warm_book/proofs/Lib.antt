pub mod NumberFacts
pub mod TakingFacts
pub mod OneTaking
pub mod WalkedFacts
pub mod NumberedFacts
pub mod SideBySide
