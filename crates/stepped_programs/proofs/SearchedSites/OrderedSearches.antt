pub mod Beside
pub mod Looked
pub mod Ordered
pub mod FirstSites
pub mod FirstFound
