pub mod Shapes
pub mod RouteLemmas
pub mod StartLemmas
pub mod ReadLemmas
pub mod PlanLemmas
pub mod PlanText
pub mod ReadAgain
mod Rows
