pub mod Written
pub mod Vectors
pub mod Faults
pub mod Weighing
pub mod private
