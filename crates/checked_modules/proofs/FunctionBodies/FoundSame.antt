pub mod DefinedSame
pub mod OperatorsSame
pub mod LiteralsSame
pub mod TypeNamesSame
pub mod DeclarationsSame
pub mod BodiesSame
pub mod StatementsSame
pub mod TypingSame
