-- What only private contracts and proofs use: no public contract reaches it.
pub mod Candidates
pub mod Frontiers
pub mod Lightest
pub mod Chains
pub mod WaitLists
pub mod Sides
pub mod SmallSides
pub mod Rulings
pub mod Indexes
pub mod Searches
pub mod Tries
pub mod Turns
pub mod Questions
