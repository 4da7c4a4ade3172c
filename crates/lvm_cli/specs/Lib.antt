pub mod Force
pub mod NotRun
pub mod Seed
pub mod Startup
