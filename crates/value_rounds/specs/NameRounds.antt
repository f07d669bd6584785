pub mod Steps
pub mod Passes
pub mod PassLaws
pub mod Laws
