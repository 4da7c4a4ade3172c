pub mod Machines
pub mod Births
pub mod Beside
pub mod Coming
pub mod Pending
pub mod Taking
pub mod Laws
