pub mod Volumes
pub mod OpenLines
pub mod Rooms
pub mod Counts
pub mod Owners
pub mod Steps
pub mod Acts
pub mod Orderly
