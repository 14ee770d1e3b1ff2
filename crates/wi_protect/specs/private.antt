-- What only private contracts and proofs use: no public contract reaches it.
pub mod Adding
pub mod Detours
pub mod Held
