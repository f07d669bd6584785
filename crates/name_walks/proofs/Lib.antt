pub mod SetLaws
pub mod AroundLaws
pub mod BlockLaws
pub mod FreshLaws
