pub mod Outcomes
pub mod Texts
pub mod Series
pub mod Questions
pub mod Outages
pub mod Audits
pub mod private
