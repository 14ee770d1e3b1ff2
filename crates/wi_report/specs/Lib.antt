pub mod States
pub mod Reports
pub mod Tolerances
pub mod Summaries
pub mod Packets
pub mod Stacks
pub mod private
