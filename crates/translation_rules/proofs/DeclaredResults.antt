-- Functions and methods that names mean have as many results in the program of packages as by their types: definitions
-- and laws alone, without code.
pub mod PackagePaths
pub mod FirstDeclared
pub mod FunctionsFound
pub mod MethodsFound
pub mod PackageMethods
pub mod MethodsInUse
pub mod OnePath
