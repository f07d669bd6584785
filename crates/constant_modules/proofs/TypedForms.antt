-- The file of a use of a constant with the form in its place.
pub mod Posts
pub mod Standing
