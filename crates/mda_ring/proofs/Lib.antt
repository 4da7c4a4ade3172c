pub mod EntryBytes
pub mod NextPlace
pub mod RingPlaces
mod SectorParts
mod StoredTexts
pub mod SpanLaws
pub mod TextBytes
mod Rows
