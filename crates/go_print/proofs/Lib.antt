pub mod Steps
pub mod Lists
pub mod Any
pub mod Ends
pub mod Chains
pub mod DeclParts
pub mod FileParts
pub mod Lasts
