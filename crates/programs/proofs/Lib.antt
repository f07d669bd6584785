pub mod UserLaws
pub mod PartOrigins
pub mod TextsOfPackages
pub mod OriginsOfUses
pub mod FileValues
