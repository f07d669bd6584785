pub mod ValueTypes
pub mod Laws
