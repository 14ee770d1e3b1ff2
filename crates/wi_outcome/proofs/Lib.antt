mod Saying
pub mod Printing
