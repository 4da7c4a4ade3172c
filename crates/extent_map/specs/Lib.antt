pub mod AllFree
pub mod ByVolume
pub mod Covered
pub mod FreeCount
pub mod FreeRuns
pub mod Gaps
