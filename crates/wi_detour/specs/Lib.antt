pub mod Detours
pub mod Graphs
pub mod private
pub mod lemmas
