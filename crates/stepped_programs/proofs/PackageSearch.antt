pub mod Made
pub mod Settled
pub mod FileSteps
pub mod SearchedPrograms
