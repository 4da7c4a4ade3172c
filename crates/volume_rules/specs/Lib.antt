pub mod Depths
pub mod Extents
pub mod Laws
pub mod Legs
pub mod Moving
pub mod Offences
pub mod Rules
pub mod Sorting
