pub mod CarryingOut
pub mod LineBatches
pub mod LineLaws
