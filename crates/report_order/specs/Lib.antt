pub mod Order
pub mod Rows
pub mod Laws
pub mod ReportWords
pub mod LimitRefusals
pub mod ReportFiles
