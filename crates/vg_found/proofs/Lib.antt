mod AllRead
pub mod HeaderDisks
mod HeaderNumbers
pub mod ShapedAreas
