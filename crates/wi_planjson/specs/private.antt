-- What only private contracts and proofs use: no public contract reaches it.
pub mod Made
pub mod Forms
pub mod Places
pub mod Starts
