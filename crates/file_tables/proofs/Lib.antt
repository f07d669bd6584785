pub mod Found
pub mod DependencyOrder
pub mod ReplacedFiles
