pub mod ToldLemmas
pub mod FileNumbers
pub mod PlaceLemmas
pub mod Joined
pub mod PartLemmas
pub mod Found
