pub mod SeenNames
pub mod PlaceLemmas
