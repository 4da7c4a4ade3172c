pub mod Areas
pub mod DataSectors
pub mod Extents
pub mod PvHeader
pub mod PvRefusal
pub mod ShownPv
