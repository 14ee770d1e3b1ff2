-- What only private contracts and proofs use: no public contract reaches it.
pub mod Exits
pub mod Around
pub mod Tables
