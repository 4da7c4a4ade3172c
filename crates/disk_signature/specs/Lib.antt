pub mod Names
pub mod Places
pub mod Signatures
pub mod Table
