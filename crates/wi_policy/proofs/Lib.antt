mod LineLemmas
mod Lines
pub mod Asking
pub mod Askable
mod Judging
mod Walks
pub mod Fine
