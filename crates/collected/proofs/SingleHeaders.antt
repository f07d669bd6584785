pub mod Singles
pub mod Added
