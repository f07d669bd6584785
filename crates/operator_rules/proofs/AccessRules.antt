pub mod CallLemmas
pub mod FieldLemmas
pub mod SliceLemmas
pub mod BuiltinRules
