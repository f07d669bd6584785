pub mod Given
pub mod Numbers
pub mod UndottedTrees
pub mod UndottedFiles
pub mod UnspreadDots
pub mod UnspreadKept
pub mod Examples
