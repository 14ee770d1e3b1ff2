pub mod Lines
pub mod Scripts
pub mod Known
pub mod Plays
pub mod private
