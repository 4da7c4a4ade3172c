pub mod Checksums
mod DivisionTable
mod PvSetLemmas
pub mod Puts
mod SectorBytes
