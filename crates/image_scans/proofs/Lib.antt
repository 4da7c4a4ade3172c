pub mod Decided
pub mod AreaReadings
pub mod Again
pub mod Front
pub mod CommitWrites
pub mod OneArea
pub mod AreaAgain
pub mod FoundAreas
pub mod Labels
pub mod DiskAgain
pub mod SettledBase
pub mod BaseEntries
mod CommittedGroup
pub mod CommitOnTheWay
mod Makes
pub mod ReadingShapes
pub mod CommitScans
mod HeldText
pub mod CommitLine
pub mod CommitCommands
mod RestoredCommit
mod Quiet
pub mod Placed
pub mod NewPlaces
mod NewVolume
pub mod Lines
pub mod NoWrites
mod OneDisk
mod QuietVersion
mod NewPv
mod NewPvEnd
pub mod LineScans
pub mod BesideAreas
pub mod BesideScan
pub mod Zeroes
pub mod NoLater
pub mod MetAreas
pub mod LabelsAgain
pub mod MarkedLabels
pub mod ClearWrites
pub mod ClearedAgain
pub mod ClearedApart
pub mod ClearScans
pub mod RemovalScans
pub mod RemovalEnds
pub mod ClearPlaces
