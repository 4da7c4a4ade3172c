pub mod Accepted
mod CountedSegments
mod EmptyGroup
pub mod Leaving
pub mod PassedRows
pub mod PlacedAgain
pub mod Restoring
pub mod SoundBackup
