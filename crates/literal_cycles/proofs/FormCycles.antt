pub mod BodiesPut
pub mod DeclPut
pub mod BodyWorld
pub mod BodySteps
pub mod BlockCalls
pub mod NoTypes
pub mod FormSteps
mod Example
mod BlockExample
mod FormExample
mod MethodExample
mod FormsFound
