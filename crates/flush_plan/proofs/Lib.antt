pub mod Orderly
pub mod Flights
mod Forgotten
mod Stable
mod Rows
