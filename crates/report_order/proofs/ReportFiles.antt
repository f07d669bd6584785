pub mod Arranged
pub mod Lines
pub mod Runs
