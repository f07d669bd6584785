pub mod MethodUse
pub mod Declared
pub mod Laws
