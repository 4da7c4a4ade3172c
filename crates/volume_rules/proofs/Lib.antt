pub mod ApartInOrder
pub mod FirstBroken
pub mod LegRuns
pub mod MovingVolumes
pub mod NamedVolumes
pub mod Permuted
mod Rounds
pub mod Sorted
