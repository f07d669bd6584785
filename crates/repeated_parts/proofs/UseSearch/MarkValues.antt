pub mod Lists
pub mod Keys
pub mod Written
pub mod Own
pub mod Viewed
pub mod Told
