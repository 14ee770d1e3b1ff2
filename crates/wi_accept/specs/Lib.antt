pub mod Answers
pub mod Followers
pub mod Demands
pub mod Causes
pub mod Makers
pub mod Trees
