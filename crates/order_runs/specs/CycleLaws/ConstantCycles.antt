pub mod NamesPut
pub mod Laws
