pub mod EndPlaces
pub mod TokenEnds
pub mod SpelledTypes
pub mod SpelledEnds
pub mod Rising
pub mod TypeKeys
pub mod SeenRise
pub mod UsesInOrder
pub mod FirstFree
pub mod FilesInOrder
mod Example
