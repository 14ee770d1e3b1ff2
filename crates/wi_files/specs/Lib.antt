pub mod Shelves
pub mod Networks
pub mod Asked
pub mod Policies
pub mod Certificates
pub mod private
