pub mod Constants
pub mod Values
pub mod Folding
pub mod Open
pub mod Operators
pub mod Shifts
