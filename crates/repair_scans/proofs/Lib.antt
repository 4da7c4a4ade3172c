pub mod RepairOnTheWay
pub mod RepairFound
pub mod StraysApart
mod RepairedReadings
mod NumberedAreas
mod PublishedHeaders
mod UnwrittenAreas
mod RepairedAreas
mod RepairedLabels
mod RepairedDisks
pub mod RepairEnd
pub mod FoundGroup
pub mod RepairPlaces
pub mod SameVersion
