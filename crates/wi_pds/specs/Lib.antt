pub mod Pairs
pub mod Rules
pub mod Runs
pub mod Closed
pub mod LeastClosed
pub mod lemmas
