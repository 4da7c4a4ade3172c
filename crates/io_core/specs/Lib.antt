pub mod Beginning
pub mod Rest
pub mod Worlds
pub mod Events
