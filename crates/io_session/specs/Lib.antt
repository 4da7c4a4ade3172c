pub mod Events
pub mod Worlds
pub mod Traces
pub mod Desks
pub mod Runs
