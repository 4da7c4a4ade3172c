pub mod CommandLines
pub mod Disks
pub mod OtherCalls
pub mod Parser
