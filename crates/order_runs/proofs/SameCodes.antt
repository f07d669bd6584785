-- Translation where the same is found: it reads a world, and the import paths of packages, by look-ups alone, so
-- packages are one program in whatever order they stand (Go specification, Packages; Program initialization; Program
-- execution). Definitions and laws alone, without code.
pub mod ValuesSame
pub mod OperatorsSame
pub mod CallsSame
pub mod NamesSame
pub mod StatementsSame
pub mod MentionsSame
pub mod FactsSame
pub mod TranslationSame
pub mod ReceiversSame
pub mod HeadersSame
pub mod PathOrder
pub mod FunctionsByHome
pub mod OrdersAlike
pub mod OrdersTyped
