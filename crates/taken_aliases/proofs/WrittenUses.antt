pub mod TypeSeats
pub mod Listed
pub mod Named
pub mod Over
