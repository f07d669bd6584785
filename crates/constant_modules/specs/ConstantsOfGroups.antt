-- Constants that share their spec with others, and what a step makes of them.
pub mod Groups
pub mod Laws
