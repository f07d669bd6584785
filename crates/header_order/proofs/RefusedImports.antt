pub mod Firsts
pub mod OfFiles
