pub mod Items
pub mod Clash
pub mod Solo
