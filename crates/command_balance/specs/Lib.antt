pub mod BalanceText
pub mod Balance
