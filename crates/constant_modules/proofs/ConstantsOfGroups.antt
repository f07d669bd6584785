-- Constants that share their spec with others, and what a step makes of them.
pub mod GroupHeaders
pub mod NamesKept
pub mod TextsKept
pub mod ClearerUses
pub mod FirstSingles
pub mod BeforeMethods
pub mod TypedHeaders
pub mod NamedUses
pub mod StepWorlds
pub mod DeclaredThere
mod Example
