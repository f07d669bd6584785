-- The program after a step, whose file is read from its new text: definitions and laws alone, without code.
pub mod Shapes
pub mod Zips
pub mod TextsRead
pub mod NextMade
pub mod Reached
pub mod Supported
