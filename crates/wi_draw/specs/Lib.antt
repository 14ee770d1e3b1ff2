pub mod Dot
pub mod Drawings
pub mod private
