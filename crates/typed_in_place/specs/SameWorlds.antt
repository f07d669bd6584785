pub mod SameWorlds
pub mod Laws
