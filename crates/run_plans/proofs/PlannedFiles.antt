pub mod Lookups
pub mod Numbers
pub mod Paths
pub mod Modules
pub mod KeptTexts
pub mod Rows
pub mod Runs
pub mod ChangedFiles
