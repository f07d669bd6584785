pub mod Referred
pub mod Texts
pub mod Changes
pub mod Limits
pub mod Laws
pub mod ChangedFiles
