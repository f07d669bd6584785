pub mod Firsts
pub mod Lists
pub mod TextSteps
pub mod ImportSteps
pub mod TypeSteps
pub mod FunctionSteps
pub mod FileSteps
pub mod LiteralSteps
pub mod Outcomes
mod SourceLemmas
