pub mod Moves
pub mod Moving
pub mod Runs
pub mod Holds
pub mod Survival
pub mod private
