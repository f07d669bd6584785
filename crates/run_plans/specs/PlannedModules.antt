pub mod Folders
pub mod Modules
pub mod Places
pub mod Planned
pub mod Unplanned
pub mod Runs
pub mod Loaded
pub mod Laws
