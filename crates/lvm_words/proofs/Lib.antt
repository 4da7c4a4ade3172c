mod Differing
pub mod FaultFree
mod Find
mod Forms
mod Found
mod Fronts
mod MatchedValues
pub mod LineNames
mod Link
mod Outcome
mod Passing
mod Requests
mod Rows
pub mod Spellings
mod Steps
mod Strays
