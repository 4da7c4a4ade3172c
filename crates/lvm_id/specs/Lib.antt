pub mod LvmId
pub mod Put
pub mod ShownId
pub mod Words
