mod DecidingSegments
mod Descending
mod FoundSegments
mod Halving
pub mod MarkedVolumes
mod OtherLegs
mod Rows
mod Spots
mod Volumes
