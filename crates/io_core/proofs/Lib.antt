pub mod Calm
pub mod LineKinds
pub mod LiveLines
mod AnsweredLines
mod Deferred
mod PieceAsks
mod CalmActs
mod Started
mod Settled
mod FirstReleased
mod Released
mod Tickets
mod Waking
mod StartedAsks
mod Wrote
pub mod WantedFlushes
pub mod FewerLeft
pub mod RoomsBorne
pub mod SameKinds
pub mod LineWaits
pub mod PieceEnters
pub mod LineBegins
mod Plain
mod Resting
mod Happened
pub mod MoreSpare
pub mod Continued
mod Landing
mod Opening
mod Seen
