pub mod ReportLemmas
pub mod PacketLemmas
mod ReportRows
