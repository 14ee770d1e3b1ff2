pub mod Rows
pub mod LeastTables
pub mod Refusals
pub mod Heaps
pub mod Tries
pub mod private
