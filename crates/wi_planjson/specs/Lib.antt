pub mod Reading
pub mod Names
pub mod Routes
pub mod Paths
pub mod Bypasses
pub mod Plan
pub mod Written
pub mod private
