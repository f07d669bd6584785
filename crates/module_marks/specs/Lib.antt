pub mod Views
pub mod Spans
pub mod Sources
pub mod Keys
pub mod Tables
