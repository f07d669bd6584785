pub mod OffCycles
pub mod NamesHere
pub mod Unobstructed
pub mod UsesPut
pub mod Examples
