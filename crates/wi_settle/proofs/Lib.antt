pub mod Walking
pub mod SetLaws
pub mod Answering
pub mod OutageLaws
