pub mod Laws
pub mod Planning
