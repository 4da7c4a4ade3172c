pub mod Judging
pub mod Plans
