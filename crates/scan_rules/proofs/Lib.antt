mod Answering
mod FlatLists
mod FoundIds
mod Greatest
mod OlderCopies
pub mod OnePv
pub mod Repairs
pub mod SameShape
pub mod Scanning
mod Silent
mod Steps
