pub mod Sorted
pub mod Tables
pub mod Told
pub mod ReportFiles
