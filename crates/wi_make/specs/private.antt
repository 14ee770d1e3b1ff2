-- What only private contracts and proofs use: no public contract reaches it.
pub mod Stages
