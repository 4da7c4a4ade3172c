mod AllIds
mod BlockOfIds
mod Climbs
mod Covering
pub mod Ends
mod HiddenVolumes
mod MarkedVolumes
mod OffenceBreaks
pub mod OneBit
mod Putting
mod Refusals
mod ShortWays
mod SortedIds
mod SortedLegs
mod TheMove
mod UsedExtents
mod Within
