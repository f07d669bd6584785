pub mod ListLemmas
pub mod GoWords
pub mod ScopeNames
pub mod ConstEval
pub mod GoLiterals
pub mod GoTypes
