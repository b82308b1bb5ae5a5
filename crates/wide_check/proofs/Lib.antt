pub mod RangeFacts
