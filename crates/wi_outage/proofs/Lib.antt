pub mod Unions
pub mod Surviving
pub mod Settling
pub mod Keeping
pub mod Counting
pub mod Adding
pub mod Gathering
