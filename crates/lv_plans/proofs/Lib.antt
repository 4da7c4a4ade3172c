pub mod CreatedVolume
pub mod Creating
pub mod Extending
pub mod GivenParts
pub mod PassedRows
pub mod Reducing
pub mod RowsOnVolume
mod SpaceRows
mod ZeroedExtents
