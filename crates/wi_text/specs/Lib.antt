pub mod Characters
pub mod Names
pub mod Spelling
pub mod Prefixes
pub mod Lines
pub mod private
