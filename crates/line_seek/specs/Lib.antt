pub mod Seeking
pub mod inner
pub use Rattle.station_search.specs as search
