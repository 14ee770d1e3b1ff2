-- What only private contracts and proofs use: no public contract reaches it.
pub mod Ends
pub mod Marks
pub mod Fronts
pub mod TreeMarks
