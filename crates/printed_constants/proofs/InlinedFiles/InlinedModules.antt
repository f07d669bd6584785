-- Modules that are inlined.
pub mod Runs
pub mod Printed
