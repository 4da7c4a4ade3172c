mod Bodies
pub mod Adding
pub mod Lists
pub mod Reprinted
mod KindTests
mod ScanBytes
mod TokensTaken
mod TokensShown
mod OneOutcome
mod Depth
mod Names
mod Words
mod Going
mod Steps
mod Accepted
mod Refused
mod ByteOf
mod Pieces
mod Fronts
mod Upto
mod Standing
mod Stepping
mod WordStepping
mod Told
mod Runs
mod Parts
mod EntryParts
mod OpenEnds
pub mod Causes
mod Rows
mod MoreRows
