pub mod SameRules
pub mod Laws
