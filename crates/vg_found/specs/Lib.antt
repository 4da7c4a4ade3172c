pub mod Disks
pub mod Laws
pub mod Shape
pub mod StaleAreas
pub mod Whole
