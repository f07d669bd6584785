pub mod NamesThere
pub mod Laws
