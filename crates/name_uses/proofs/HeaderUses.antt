pub mod Values
pub mod Seen
pub mod Tops
pub mod HeadersFound
pub mod Places
