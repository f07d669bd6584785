pub mod Firsts
pub mod Meant
pub mod Along
pub mod Joined
pub mod Search
