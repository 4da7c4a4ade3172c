mod Sections
pub mod Printable
pub mod NamesOfText
mod PvAgain
mod WordsAgain
pub mod Numbered
mod SegmentAgain
mod LvAgain
mod VolumesAgain
mod GroupAgain
mod TreeAgain
mod Limits
mod Fitting
mod GroupFits
mod Inverting
mod TextParts
mod FromTree
pub mod GroupFrom
pub mod ReadAgain
mod WordLists
mod RowLists
mod Chains
mod SegmentLists
mod Rows
