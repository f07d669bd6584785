pub mod Standing
pub mod InStatements
pub mod InOperands
pub mod InPackages
pub mod Runs
pub mod Laws
