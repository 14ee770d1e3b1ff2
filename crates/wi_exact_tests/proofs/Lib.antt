pub mod Outages
