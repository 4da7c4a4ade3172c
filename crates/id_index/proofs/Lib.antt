mod Entries
pub mod Found
mod Walked
