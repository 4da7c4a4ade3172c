pub mod SessionScript
pub mod Running
pub mod Status
