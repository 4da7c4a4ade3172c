mod Finding
mod Freed
pub mod Listed
pub mod Looking
mod Marks
mod Scanning
mod Showing
