pub mod Outages
pub mod Survival
pub mod private
