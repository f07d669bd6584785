pub mod Laws
pub mod Further
pub mod Reached
pub mod Parts
pub mod Steps
pub mod StepsInBodies
pub mod TypedSteps
