pub mod PutCalls
pub mod NamesNoFunction
pub mod PutSteps
pub mod NamesStay
pub mod Laws
pub mod ConstantCycles
