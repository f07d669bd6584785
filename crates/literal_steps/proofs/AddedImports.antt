pub mod FilesBeside
pub mod NewNames
pub mod NamesAdded
pub mod MeantAfter
pub mod TopAfter
pub mod PlacesAfter
pub mod AroundFound
pub mod RankedAfter
pub mod FilesBetween
pub mod StatementsAfter
pub mod StatementsBehind
pub mod Braces
mod Example
mod DeferExample
