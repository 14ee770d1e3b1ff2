pub mod Scripts
pub mod Protection
pub mod Bypassing
pub mod OnWire
pub mod Drawn
pub mod private
