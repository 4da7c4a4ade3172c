pub mod Prefixes
mod Totals
mod Histories
mod Views
mod Keeps
mod Steps
mod Rows
