pub mod Among
mod Submissions
mod Works
mod PartPuts
pub mod WrittenBy
pub mod DisksOfSet
mod Progressing
mod Rounding
pub mod Calling
mod Beside
pub mod Fitting
mod Flushing
pub mod Faulting
pub mod Growing
mod AfterIdle
pub mod Carrying
mod AloneRun
mod Written
pub mod WritesOnImages
mod OneTurn
pub mod InTurn
pub mod FrontBatches
mod TurningBatches
pub mod Along
pub mod Elsewhere
pub mod FlushedStates
pub mod Starting
pub mod WritesApart
pub mod InBlocks
mod EachFlushed
