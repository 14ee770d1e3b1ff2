pub mod HeaderLemmas
pub mod RewriteLemmas
