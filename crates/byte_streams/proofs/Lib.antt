mod Counts
pub mod ItemsWritten
mod SourceText
pub mod TextsWritten
mod Written
