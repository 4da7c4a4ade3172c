pub mod EarlierMoments
mod Legal
pub mod Bases
mod Brought
pub mod Numbered
pub mod Answers
mod Acknowledged
pub mod CommandKinds
mod Consistent
mod Quiet
pub mod Reshaped
mod ComingFrom
mod RestoredVersions
pub mod MadeVersions
pub mod ZeroedVolume
mod Places
mod AtTake
mod Untouched
pub mod Phases
mod Written
mod LegalLines
pub mod SingleLines
mod OneVersion
mod Viewed
pub mod SmallGroups
mod Examples
mod RestoreExamples
mod SmallRun
mod FlushExamples
mod FlushedRun
mod WrongRuns
