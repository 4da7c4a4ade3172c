pub mod Checksum
pub mod Fields
pub mod PvSetPlaces
pub mod PvSets
pub mod Sectors
pub mod Shown
pub mod ShownSpan
pub mod Spans
