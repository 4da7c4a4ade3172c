pub mod OneStepMore
pub mod WritesInFlight
pub mod Durable
pub mod EveryMoment
pub mod Bringing
pub mod InFlight
pub mod Submissions
pub mod EachMoment
pub mod SectorImages
pub mod NowStands
mod Patched
pub mod WhereTold
pub mod OneAtATime
pub mod Ordered
pub mod ValueLists
pub mod StepsSince
pub mod ReadingAlone
pub mod Reaping
pub mod KeptSectors
pub mod LastFault
pub mod IdleAgain
mod PutSectors
mod OnePut
pub mod Lying
mod SectorBytes
