pub mod GrownLaws
pub mod RowLaws
pub mod FieldLaws
pub mod FieldSteps
pub mod NewNames
pub mod TypeSteps
pub mod FlagsKept
pub mod ValuesKept
