mod AllFree
mod Buckets
pub mod CoveredExtents
mod FreeExtents
pub mod GapExtents
pub mod LegsOnVolume
pub mod RunsInOrder
