mod AreaList
mod FirstSectors
mod OneArea
pub mod OneFinding
mod OneLabel
pub mod ReadingParts
pub mod ReadsAll
mod Usable
