pub mod DiskRow
pub mod DiskRowInvariant
pub mod ChosenImage
pub mod RowValues
pub mod Plan
pub mod HeldLaws
pub mod RowHolds
pub mod MemShelf
