mod GivenValues
pub mod Numbered
mod Numbers
