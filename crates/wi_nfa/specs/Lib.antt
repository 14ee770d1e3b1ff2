pub mod Positions
pub mod Automata
pub mod Rows
pub mod Refusals
pub mod Left
pub mod Sets
pub mod private
