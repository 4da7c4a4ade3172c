pub mod Keys
pub mod PassedOver
pub mod Runs
pub mod ShownGroup
pub mod Standing
pub mod Status
pub mod StatusBits
pub mod Tables
