pub mod AnyBlock
pub mod FreeForms
pub mod FunctionWritten
pub mod TurnedPlaces
pub mod FormsWritten
pub mod BodiesCall
pub mod StatementsHeld
pub mod StepsPut
pub mod BoundBlocks
pub mod StepsBound
mod BoundExample
pub mod ArgumentsPut
mod ArgumentsExample
pub mod StepsExpressions
pub mod CalleesAround
mod FormsExample
