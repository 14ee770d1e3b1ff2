-- What only private contracts and proofs use: no public contract reaches it.
pub mod Spelled
pub mod Tables
pub mod Certificates
