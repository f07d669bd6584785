pub mod NamedLaws
pub mod RowLaws
pub mod TableLaws
pub mod RowSteps
pub mod Loops
