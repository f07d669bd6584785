pub mod Uses
pub mod Laws
pub mod PutTypes
pub mod ReadImports
pub mod WrittenNames
