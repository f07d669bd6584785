pub mod FieldLaws
mod FileChecks
pub mod InternalLaws
pub mod PathLaws
pub mod PieceLaws
pub mod SelectionLaws
