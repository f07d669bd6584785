pub mod DefinedSame
pub mod RelationsSame
pub mod OperandsSame
pub mod DeclarationsSame
pub mod OperatorsSame
pub mod PrimarySame
pub mod LiteralsSame
pub mod TypeNamesSame
pub mod BodiesSame
pub mod StatementsSame
pub mod AgainSame
pub mod TypingSame
pub mod InitialSame
pub mod HeadersSame
pub mod AtHome
pub mod HeadersMoved
pub mod OrdersSame
mod Example
