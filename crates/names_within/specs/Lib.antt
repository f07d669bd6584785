pub mod TreeWalk
pub mod FileWalk
