pub mod Texts
pub mod Packages
pub mod Written
pub mod TypesPut
pub mod Steps
