pub mod Layout
pub mod ReadAgain
pub mod WordsSet
pub mod Parts
