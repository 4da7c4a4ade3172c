pub mod Allocating
pub mod Lvcreate
pub mod Lvextend
pub mod Lvreduce
pub mod Lvremove
pub mod Lvrename
pub mod Sizes
pub mod Volumes
