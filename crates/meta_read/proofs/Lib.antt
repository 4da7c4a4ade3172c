mod Each
mod Finding
mod Grouped
mod Left
mod NamedRows
mod PairLists
mod Passing
pub mod PrintedIds
mod Steps
mod WordLists
mod WorkedRows
mod KeyRows
