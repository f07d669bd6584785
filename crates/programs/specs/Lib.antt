pub mod Users
pub mod Kept
pub mod Programs
pub mod PartOrigins
pub mod TextsOfPackages
pub mod OriginsOfUses
pub mod FileValues
