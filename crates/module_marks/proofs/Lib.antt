pub mod SpanLaws
pub mod FileLaws
pub mod SetLaws
pub mod TableLaws
