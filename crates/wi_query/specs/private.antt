-- What only private contracts and proofs use: no public contract reaches it.
pub mod Names
pub mod Frames
pub mod Parts
pub mod Lookups
pub mod Giving
