pub mod LabelBytes
mod Refusals
