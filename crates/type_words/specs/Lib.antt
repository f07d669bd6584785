pub mod TypeText
pub mod Written
