pub mod Known
mod Fronts
mod Names
mod Labels
mod Forms
mod Numbers
mod Meanings
mod Outcomes
mod Scripts
pub mod Unique
mod SetLemmas
pub mod PlayLemmas
