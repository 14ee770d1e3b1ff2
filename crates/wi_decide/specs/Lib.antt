pub mod Spelled
pub mod Showing
pub mod Searches
pub mod Refusals
pub mod private
