-- Faults: each disk that an answer names is one of which an operation failed, over any shelf.
pub mod Names
pub mod Cores
pub mod Keeps
pub mod Runs
