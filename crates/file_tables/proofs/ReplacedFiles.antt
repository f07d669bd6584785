pub mod Changed
