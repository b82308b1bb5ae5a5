pub mod CertificateSize
