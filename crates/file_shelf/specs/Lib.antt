pub mod Adjacent
pub mod Answering
pub mod Bytes
pub mod Nodes
pub mod Opened
pub mod Sizes
