pub mod Candidates
pub mod Written
pub mod Views
pub mod Parts
pub mod Among
pub mod Laws
