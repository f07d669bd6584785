pub mod Called
pub mod Walked
pub mod Gives
pub mod PutNames
pub mod Put
pub mod KeptCalls
pub mod NoCallees
pub mod DeclCalls
pub mod StepsLead
pub mod SmallBare
pub mod CallsBare
pub mod BareWith
pub mod DeclRead
mod Examples
pub mod ConstantCycles
