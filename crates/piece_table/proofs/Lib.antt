mod Entries
mod Counts
pub mod Claimed
mod Flying
pub mod Waiting
mod Kept
mod Rows
