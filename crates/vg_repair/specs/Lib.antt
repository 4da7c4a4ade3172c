pub mod Stale
pub mod Batches
pub mod Repaired
pub mod Repairing
pub mod Laws
pub mod Building
pub mod Putting
