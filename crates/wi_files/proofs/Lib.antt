pub mod Causes
pub mod ShelfLemmas
mod Parts
mod Listing
pub mod Giving
