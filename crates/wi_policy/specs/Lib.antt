pub mod Line
pub mod Policies
pub mod private
