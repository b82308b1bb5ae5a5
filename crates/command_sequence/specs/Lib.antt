pub mod TimedMix
pub mod CertificateFile
pub mod SequenceText
pub mod Beginning
pub mod Ordered
pub mod VerdictText
pub mod SequenceCheck
