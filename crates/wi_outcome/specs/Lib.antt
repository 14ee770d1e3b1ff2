pub mod Texts
pub mod Edges
