-- What other imports of a file keep of the calls of marked functions (Go specification, Import declarations;
-- Declarations and scope; Calls).
pub mod FreeIdentifiers
pub mod CallsMoved
pub mod DeclMoved
pub mod BesideStay
pub mod NamesReadAlike
pub mod LeadAlike
pub mod ImportStep
pub mod ImportPaths
pub mod ImportsRead
pub mod ImportsAdded
pub mod Example
pub mod HeadersMoved
pub mod WorldMoved
pub mod CallsSame
pub mod DeclSame
