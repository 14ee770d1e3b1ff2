pub mod MarkLemmas
pub mod InnerLemmas
pub mod FoundLemmas
pub mod JudgedLemmas
pub mod SurvivalLemmas
mod Samples
