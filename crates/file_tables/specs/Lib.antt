pub mod Numbers
pub mod DependencyOrder
pub mod ReplacedFiles
pub mod Blocks
