pub mod BehindFacts
pub mod EndFacts
pub mod Tries
pub mod AskFacts
pub mod SeekFacts
pub mod Results
pub mod ReopenFacts
pub mod CertificateFacts
pub use Rattle.round_run.proofs as about_rounds
