-- What only private contracts and proofs use: no public contract reaches it.
pub mod Ends
pub mod LinkSet
pub mod RiskGroups
pub mod Tables
pub mod Network
pub mod Builder
