pub mod Bypasses
pub mod private
