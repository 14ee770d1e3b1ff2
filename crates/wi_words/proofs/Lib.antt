pub mod Parsed
pub mod Numbers
pub mod Building
pub mod Names
pub mod Entered
pub mod Rows
