pub mod OneDisk
