pub mod NamesThere
pub mod ServedNames
pub mod TypesNamed
pub mod ArgumentCalls
pub mod UsedArguments
pub mod QuietArguments
pub mod PlacedCalls
pub mod ExpressionsThere
pub mod NamesAlone
pub mod NamesKept
pub mod OwnNames
pub mod GivenCalled
pub mod BracesPut
pub mod BodyWalks
pub mod CalleesThere
pub mod CalleesLed
pub mod MethodsLed
pub mod LedBraces
pub mod PlacedBraces
pub mod BracesThere
pub mod BraceSteps
pub mod LedLiterals
pub mod PlacedLiterals
pub mod PlacedParts
pub mod PlacedUses
pub mod Stays
pub mod LiteralsThere
pub mod LiteralSteps
pub mod Steps
pub mod FreeSteps
pub mod TypedBodies
pub mod ImportingSteps
pub mod TypedMethods
pub mod FoundThere
pub mod LeftUses
pub mod ArgumentRuns
mod MethodExample
mod TailExample
mod UnusedExample
mod ConvertedExample
mod MethodTailExample
mod BracesExample
mod LiteralPlacedExample
pub mod BlockText
mod BlockUseExample
mod BlockStepExample
pub mod LiteralText
mod LiteralUseExample
mod LiteralStepExample
pub mod ImportText
mod ImportStepExample
mod TwoMethodsExample
