pub mod ShownLemmas
pub mod CertificateLemmas
