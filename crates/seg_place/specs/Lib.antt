pub mod Cost
pub mod Legs
pub mod Marks
pub mod Search
pub mod Sectors
pub mod CodeValues
pub mod CodePlaces
pub mod Sought
