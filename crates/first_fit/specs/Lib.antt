pub mod RankedBalance
pub mod inner
