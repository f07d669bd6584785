pub mod SitesAt
pub mod Order
pub mod Once
pub mod Told
