pub mod Ring
pub mod Texts
pub mod private
