pub mod Branches
pub mod Trees
pub mod Nodes
