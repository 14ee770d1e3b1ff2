pub mod Audited
pub mod Run
pub mod Surviving
pub mod private
