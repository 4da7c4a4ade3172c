pub mod Batches
pub mod Building
pub mod Laws
pub mod Sound
