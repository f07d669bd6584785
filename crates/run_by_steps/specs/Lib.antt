pub mod Reached
pub mod Laws
pub mod NextPrograms
pub mod WrittenImports
pub mod SpelledNames
pub mod RunProgress
pub mod StepCounts
