pub mod Lists
pub mod Singles
pub mod NamesTogether
pub mod OneName
pub mod FirstNames
pub mod TypeBlocks
pub mod SinglesStand
pub mod ButForSpans
mod Examples
