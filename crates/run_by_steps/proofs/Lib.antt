pub mod Kept
pub mod GoesOn
pub mod NextPrograms
pub mod WrittenImports
pub mod SpelledNames
pub mod RunProgress
pub mod StepCounts
