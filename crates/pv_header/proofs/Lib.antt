pub mod OneAnswer
pub mod Overlaps
mod Placed
mod Filled
mod ReadLists
mod WrittenLists
pub mod WrittenHeader
mod Rows
