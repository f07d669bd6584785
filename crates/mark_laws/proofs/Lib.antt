pub mod AscendLaws
pub mod TokenOrder
pub mod NameOrder
pub mod MarkOrder
