pub mod Copies
pub mod Decision
pub mod Answers
pub mod Flat
pub mod Found
pub mod Laws
pub mod Readings
