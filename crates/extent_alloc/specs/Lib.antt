pub mod AllRuns
pub mod Few
pub mod Free
pub mod Giving
pub mod Laying
pub mod Refusals
pub mod Taking
pub mod Usable
