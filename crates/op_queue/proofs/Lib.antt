mod Fresh
pub mod Removed
pub mod Telling
pub mod Completion
