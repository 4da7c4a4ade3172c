-- The causes: each answer that a disk couldn't be read, or has failed, has its own in what is told and in the entries.
pub mod Since
pub mod Growing
pub mod Lines
pub mod Known
pub mod Waiters
pub mod Lives
pub mod LineFailing
pub mod PieceFailing
pub mod Writing
pub mod Ending
pub mod Acts
pub mod Carried
pub mod Begun
pub mod Ended
pub mod Keeps
pub mod Opened
