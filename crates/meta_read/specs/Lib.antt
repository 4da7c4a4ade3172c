pub mod Parts
pub mod Places
pub mod Reading
pub mod Rows
pub mod Standing
pub mod Unknowns
