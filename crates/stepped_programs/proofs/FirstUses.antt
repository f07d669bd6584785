pub mod Flagged
pub mod Searched
pub mod Kept
pub mod Steps
pub mod MadeSteps
pub mod FoundFiles
