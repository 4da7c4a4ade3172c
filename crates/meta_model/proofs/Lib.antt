mod Rows
pub mod StatusWords
pub mod TableLemmas
