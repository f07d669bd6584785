pub mod Use
pub mod Runs
pub mod Laws
pub mod Taken
pub mod Puts
pub mod TakenLaws
pub mod Marked
pub mod MarkedLaws
