pub mod UsesFound
pub mod PartsMeant
pub mod UsesStand
pub mod HeadersKeep
pub mod ImportsStand
pub mod LinkedThere
pub mod StepsAnywhere
pub mod PlacesWithin
pub mod GroupsKept
pub mod TypesThere
pub mod LocalHolds
pub mod LiteralParts
pub mod DeclPlaces
pub mod Ordered
pub mod TypedWalk
pub mod TypedDecls
pub mod LiteralsKnown
pub mod UsesAnywhere
pub mod RunsAnywhere
pub mod TypeRounds
pub mod AfterTypes
pub mod KeysThere
mod ExampleParts
mod FunctionExample
mod KeysExample
mod GroupExample
mod RepeatedExample
