pub mod SetLemmas
pub mod FaultLemmas
pub mod HopLemmas
pub mod WalkLemmas
pub mod NeedsLemmas
pub mod ReplayLemmas
