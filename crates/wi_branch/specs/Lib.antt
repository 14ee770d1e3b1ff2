pub mod Walks
pub mod Exactly
pub mod Tolerance
pub mod private
