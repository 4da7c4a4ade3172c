pub mod Sublists
mod AreaDisks
pub mod HeldAreas
mod TextBatches
pub mod NewLabels
pub mod RepairedHeaders
pub mod RepairedOld
mod RepairBatches
pub mod Numbered
pub mod RepairedShape
mod KeptTexts
pub mod StaleOthers
mod KeptImages
pub mod Nothing
mod TakenOff
mod Flagged
pub mod RepairedEntries
pub mod RepairedSizes
