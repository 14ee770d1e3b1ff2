pub mod AddLemmas
pub mod NameLemmas
pub mod Stages
pub mod RowSteps
pub mod Fresh
pub mod DetourLemmas
pub mod Filling
pub mod Fits
pub mod Fitting
pub mod Ways
pub mod Walks
pub mod Lookups
pub mod Placing
pub mod Classes
pub mod Protection
pub mod Naming
mod Samples
