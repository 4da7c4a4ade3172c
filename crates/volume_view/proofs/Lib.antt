mod AcceptedExample
pub mod CopiesApart
mod ExampleLaws
mod Examples
pub mod GoingDown
pub mod InExtents
pub mod MetSegments
pub mod OnTheWay
pub mod OneAbove
pub mod OthersApart
mod Pieces
mod PrimariesApart
pub mod PrimariesStand
pub mod SideBySide
pub mod Stripes
pub mod Views
