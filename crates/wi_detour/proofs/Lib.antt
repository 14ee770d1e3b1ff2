pub mod ExitLemmas
pub mod WayLemmas
pub mod DetourLemmas
pub mod RunLemmas
pub mod BoundLemmas
pub mod ReadyLemmas
pub mod LeastLemmas
