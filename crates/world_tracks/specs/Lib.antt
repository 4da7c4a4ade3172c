pub mod Lives
pub mod Notes
pub mod Tracks
pub mod Moments
pub mod Histories
pub mod Kept
