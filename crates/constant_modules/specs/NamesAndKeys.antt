pub mod Marked
pub mod UsedStand
pub mod Laws
