pub mod OrderDistinct
pub mod HeadersDeclare
pub mod FilesStand
pub mod UsesLinked
mod Example
