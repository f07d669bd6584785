pub mod TypedUses
pub mod Laws
pub mod UseLaws
