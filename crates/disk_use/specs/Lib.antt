pub mod Faults
pub mod LookedAt
pub mod Taken
pub mod Unlisted
pub mod Uses
