pub mod Causes
pub mod Contents
pub mod Parts
pub mod Reads
pub mod Standing
