pub mod Cert
pub mod OldCert
pub mod Versions
pub mod Sent
pub mod Parts
pub mod WholeText
pub mod Laws
pub mod inner
