pub mod Located
pub mod Lists
pub mod Known
pub mod OperatorSteps
pub mod AccessSteps
