pub mod Labels
pub mod Rows
pub mod Protected
pub mod Protection
pub mod Naming
pub mod OneWay
pub mod Refusals
pub mod private
