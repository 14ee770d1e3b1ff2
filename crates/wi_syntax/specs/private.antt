-- What only private contracts and proofs use: no public contract reaches it.
pub mod Lists
pub mod Parsing
pub mod Reading
pub mod Behind
