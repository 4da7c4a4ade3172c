pub mod Copies
pub mod InExtents
pub mod InSegments
pub mod Laws
pub mod Places
pub mod SamePlaces
pub mod View
