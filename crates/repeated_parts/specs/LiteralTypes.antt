pub mod Tables
pub mod Literals
pub mod Views
pub mod Told
pub mod Types
pub mod Laws
