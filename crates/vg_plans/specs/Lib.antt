pub mod Limits
pub mod Vgcfgrestore
pub mod Vgcreate
pub mod Vgextend
pub mod Vgreduce
pub mod Vgremove
pub mod Vgrename
