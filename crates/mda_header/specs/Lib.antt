pub mod Header
pub mod HeaderBytes
pub mod ShownMda
