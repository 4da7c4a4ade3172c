pub mod EntryLists
pub mod OneLine
mod OpenTold
mod PieceSettles
mod Quiet
pub mod Stages
pub mod ShortActs
pub mod PieceActs
pub mod LineActs
pub mod LineAnswered
pub mod LineClosed
mod Passed
mod Covering
pub mod LineBegun
pub mod Acts
pub mod Both
pub mod Lines
pub mod Events
pub mod Runs
pub mod Contents
mod OpenFlushes
mod FlushRows
pub mod FlushesKept
pub mod EndedFlush
pub mod Faults
pub mod PlainAnswers
