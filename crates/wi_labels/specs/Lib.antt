pub mod Header
pub mod private
