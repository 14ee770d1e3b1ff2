pub mod Names
pub mod Tokens
pub mod Atoms
pub mod Trees
pub mod Grammar
pub mod Refusals
pub mod private
