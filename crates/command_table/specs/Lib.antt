pub mod Commands
pub mod Given
pub mod Meaning
pub mod Options
pub mod Table
pub mod Values
pub mod Words
