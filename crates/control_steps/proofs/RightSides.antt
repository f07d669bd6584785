pub mod AlikeValues
