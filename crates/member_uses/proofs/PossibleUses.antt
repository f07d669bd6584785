pub mod Following
pub mod WrittenTypes
