pub mod LineRun
pub mod Laws
pub mod Histories
pub mod Places
pub mod EachSet
