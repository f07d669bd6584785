pub mod AliasForms
pub mod Example
pub mod Lists
pub mod LiteralForms
pub mod Spans
pub mod ToldWalk
