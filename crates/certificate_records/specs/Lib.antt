pub mod CertificateBytes
pub mod Reader
