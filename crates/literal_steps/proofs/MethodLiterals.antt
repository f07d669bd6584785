pub mod MethodHeaders
pub mod MethodCode
pub mod MarkedMethods
pub mod MethodsFound
pub mod Selected
pub mod TermOnce
pub mod Argument
pub mod ReceiverFirst
pub mod MethodText
pub mod MethodBare
pub mod CallMeant
mod Example
mod AwayExample
