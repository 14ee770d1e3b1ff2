pub mod Asked
pub mod Certificates
pub mod Decided
pub mod Exact
pub mod Tolerance
pub mod Wanted
pub mod Generated
pub mod private
