pub mod BlockMembers
pub mod NamesStand
pub mod TypesBeside
pub mod Told
pub mod SpansStand
pub mod FilesTold
