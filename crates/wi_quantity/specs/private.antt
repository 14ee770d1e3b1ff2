-- What only private contracts and proofs use: no public contract reaches it.
pub mod Syntax
pub mod Noting
pub mod Meaning
pub mod Shares
