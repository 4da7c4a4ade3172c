mod Ascending
mod PlaceOrder
mod Indices
mod ByNumber
mod Indexed
mod Halving
mod RegionsKept
mod Passing
mod TableKept
mod FreePieces
mod Watched
mod Beside
pub mod Apart
mod Reached
pub mod Rows
