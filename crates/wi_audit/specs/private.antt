-- What only private contracts and proofs use: no public contract reaches it.
pub mod Shows
pub mod Puts
pub mod Trials
