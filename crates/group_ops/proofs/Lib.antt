pub mod WholeState
pub mod NextVersions
pub mod NoZeros
pub mod PlacedChanges
pub mod NoClears
