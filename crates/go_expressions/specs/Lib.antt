pub mod ExprParts
pub mod Bodies
