-- What only private contracts and proofs use: no public contract reaches it.
pub mod Refusals
pub mod Written
