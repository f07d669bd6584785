pub mod Operands
pub mod Lists
pub mod OperandLaws
pub mod CheckerTables
pub mod OperandAnswers
