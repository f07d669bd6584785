pub mod CalledNames
pub mod ImportsNamed
pub mod Alone
pub mod Counted
pub mod Between
pub mod UsedBefore
pub mod Declared
pub mod Kept
pub mod ImportsLeft
pub mod ImportsRight
pub mod KeyedLeft
pub mod Shown
pub mod UsedAgain
pub mod Settled
mod Example
