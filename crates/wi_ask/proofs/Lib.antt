mod Answers
pub mod Ending
pub mod Asking
mod Checking
mod Exactly
mod Tolerating
mod Deciding
pub mod Due
