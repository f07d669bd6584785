pub mod NameLaws
pub mod LocalLaws
pub mod ScopeLaws
pub mod TypeExprs
