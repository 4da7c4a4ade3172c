pub mod Fields
mod HeaderBytes
pub mod OneEntry
pub mod OneRefusal
pub mod ReadAgain
