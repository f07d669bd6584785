pub mod CalleeWalk
pub mod Callees
pub mod TypesLaid
pub mod ExprsApart
pub mod ExprsPut
pub mod Steps
pub mod Examples
