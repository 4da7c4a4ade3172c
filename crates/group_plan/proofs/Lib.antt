pub mod AddedFacts
pub mod Chained
mod Contents
mod DataApart
mod DataPlaces
pub mod Disks
pub mod ExtendedGroup
pub mod FewAdded
pub mod FoundIds
mod NamedPvs
pub mod Passed
pub mod PlacedGroup
pub mod PlacedVolumes
mod RowWalks
pub mod Rows
pub mod StateFacts
