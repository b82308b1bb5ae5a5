pub mod StationsText
pub mod BalanceLines
pub mod InfeasibleText
pub mod TimelineText
pub mod inner
