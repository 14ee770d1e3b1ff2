pub mod Playing
mod HexLemmas
mod Bypassing
pub mod Protecting
