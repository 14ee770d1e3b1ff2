pub mod Auditing
pub mod Outcomes
pub mod Written
pub mod Surviving
