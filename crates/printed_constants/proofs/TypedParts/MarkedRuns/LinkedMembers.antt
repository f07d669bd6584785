pub mod Files
pub mod Linked
pub mod Right
pub mod Stand
