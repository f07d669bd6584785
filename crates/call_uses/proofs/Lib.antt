pub mod NoMethods
pub mod Led
