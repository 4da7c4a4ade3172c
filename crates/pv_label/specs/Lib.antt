pub mod First
pub mod Label
pub mod LabelBytes
pub mod LabelSectors
pub mod ShownLabel
