pub mod Cases
pub mod Decimals
pub mod Files
