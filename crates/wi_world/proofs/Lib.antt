pub mod Allowed
pub mod Steps
pub mod EndLemmas
pub mod MovingLaws
pub mod RunLaws
pub mod HoldsLaws
pub mod SurvivalLaws
pub mod Known
pub mod Samples
mod Rows
mod EndRows
