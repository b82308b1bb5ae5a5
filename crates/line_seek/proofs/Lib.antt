pub mod AnswerFacts
pub mod PaidFacts
pub mod TrimFacts
pub mod SeekFacts
pub use Rattle.station_search.proofs as about_search
