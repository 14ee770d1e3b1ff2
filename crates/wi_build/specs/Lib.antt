pub mod Encodings
pub mod Problems
pub mod Tags
pub mod Systems
pub mod lemmas
pub mod private
