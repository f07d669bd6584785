pub mod Values
pub mod Lacking
pub mod Named
