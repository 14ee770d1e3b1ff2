-- What only private contracts and proofs use: no public contract reaches it.
pub mod Tags
pub mod Small
pub mod Needs
pub mod Rows
pub mod Hops
pub mod First
