pub mod ShownSectors
pub mod AreaPuts
pub mod AreasCommit
pub mod Disks
mod Lying
mod Planning
mod CommitInTurn
pub mod CommitImages
pub mod CommitCanRun
mod CommitTargets
mod CommitGoes
mod CommitLaws
mod CommitBeside
mod CommitRoom
mod CommitBuffers
