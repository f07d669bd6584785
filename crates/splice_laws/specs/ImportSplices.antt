pub mod AddedFile
pub mod SettledFile
pub mod SettledReads
pub mod ImportPlaces
pub mod SupportedWords
pub mod TypedDots
pub mod FormSplices
