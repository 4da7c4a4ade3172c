pub mod AnswerLines
pub mod Columns
pub mod Lines
pub mod Marks
pub mod Report
pub mod Reports
pub mod VolumeLine
pub mod Volumes
