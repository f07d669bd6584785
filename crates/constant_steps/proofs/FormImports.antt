mod Small
pub mod Kept
pub mod Walk
pub mod DeclWalk
mod StatementsListed
pub mod SitesListed
pub mod NamesThere
mod FormWrites
mod BodyWrites
mod BodyPuts
mod GivensStand
mod CallStart
mod LiteralWrites
mod ValueWrites
mod BlockWrites
mod NamesOnce
mod NamesUnbound
mod Formed
mod StatementPuts
mod FormsUsed
pub mod NamesMean
pub mod CallsUsed
pub mod OwnNames
pub mod ImportLaws
