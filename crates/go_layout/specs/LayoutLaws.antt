pub mod Formed
pub mod LayoutTokens
pub mod Real
pub mod LayoutPieces
pub mod Laid
pub mod Laws
