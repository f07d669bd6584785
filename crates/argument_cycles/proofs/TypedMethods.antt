pub mod MethodsFound
pub mod MethodsCome
pub mod MethodSteps
pub mod ArgumentsInside
pub mod ArgumentsKept
