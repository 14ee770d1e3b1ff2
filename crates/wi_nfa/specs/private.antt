-- What only private contracts and proofs use: no public contract reaches it.
pub mod Marks
pub mod Ends
pub mod Atoms
pub mod Rows
pub mod Sets
