pub mod GoalRuns
pub mod Derivations
pub mod Refusals
