pub mod Looks
pub mod Search
pub mod FileSteps
pub mod SearchedPrograms
