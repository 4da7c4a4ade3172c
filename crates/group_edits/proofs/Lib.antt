pub mod Selections
pub mod Pushed
pub mod PushedRules
pub mod PushedPrintable
pub mod Whole
mod RenamedPrintable
pub mod Renamed
mod RenamedRows
pub mod Visible
pub mod Renumbered
mod RenumberedPrintable
mod LegPlaces
mod Edits
mod EditedLegs
mod EditedRows
mod PrintedNames
mod EditedPrintable
pub mod Staying
mod StayingRules
pub mod Removed
mod Marking
mod NumberedRest
mod MarkedRest
mod RenumberedPlaces
pub mod KeptPlaces
pub mod RenamedPlaces
pub mod RemovedPlaces
pub mod VisibleStay
pub mod RenamedGroup
pub mod OneNamed
mod KeptExtents
pub mod ShortFront
mod ShortRows
mod ShortRules
pub mod Shortened
pub mod ShortenedPlaces
mod GivenExamples
mod GrownRules
pub mod GivenRuns
pub mod GivenRules
mod GrownPrintable
mod LastSegment
mod Split
pub mod LongerRules
mod MadePrintable
pub mod Longer
mod NewRules
pub mod PrintedIds
pub mod New
pub mod FewSectors
pub mod OnDisks
pub mod LongerPlaces
pub mod FreePlaces
pub mod FirstSectors
mod LastRows
pub mod ReducedRuns
pub mod ReducedRules
pub mod ReducedGroup
pub mod ReducedPlaces
pub mod RestoredGroup
mod Placed
mod NineVolumes
mod FreeNames
pub mod JoinedRules
