pub mod BlocksSame
pub mod GoodKept
pub mod GoodTests
pub mod Greatest
pub mod Passed
pub mod Refused
