pub mod Spans
pub mod Rewritten
pub mod Listed
pub mod FormsUnspread
pub mod StepsUnspread
