pub mod Pvcreate
