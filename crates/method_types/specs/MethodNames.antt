pub mod Attached
pub mod Known
