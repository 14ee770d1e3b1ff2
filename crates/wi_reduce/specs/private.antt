-- What only private contracts and proofs use: no public contract reaches it.
pub mod Worklists
pub mod Bits
pub mod Searches
pub mod Kept
